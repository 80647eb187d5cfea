-- The laws that the functions' proofs share; a caller's proof cites Standing.
pub mod Standing
pub mod Columns
pub mod Step
pub mod Rows

-- The laws that the functions' proofs share; a caller's proof cites Held, Lengths and Patterned.
pub mod Held
pub mod Lengths
pub mod Extensions
pub mod Columns
pub mod Rows
pub mod Taking
pub mod Going
pub mod Fronts
pub mod Starting
pub mod Looking
pub mod Patterned
pub mod Pulling

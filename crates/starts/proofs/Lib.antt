-- The laws that the functions' proofs share.
pub mod Readied
pub mod Parted

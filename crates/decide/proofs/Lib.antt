-- The laws that the functions' proofs share.
mod Alone
mod Cycling
mod Zoned
mod Loaded

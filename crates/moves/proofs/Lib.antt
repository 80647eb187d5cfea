-- The laws that the functions' proofs share; a caller's proof cites Previous.
mod Numbers
mod Numbered
mod Potentials
pub mod Previous

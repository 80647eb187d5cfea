-- What the proofs of the functions use.
pub mod Answered
pub mod Inside

-- Laws that the proofs of several functions use.
pub mod Spelling
pub mod Inking
pub mod Parts
pub mod Sound

-- The theory of a run's times, and laws that the proofs of several functions use.
pub mod Growth
pub mod Laws

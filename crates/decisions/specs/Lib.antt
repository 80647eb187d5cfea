-- The exact answer: its definition, what is demanded of it, and examples.
pub mod Decide
pub mod Conditions
pub mod Deciding
pub mod DecideExamples

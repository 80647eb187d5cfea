-- How the reader's answers say what a reading gives, and vectors of the readings.
pub mod Readings
pub mod Vectors

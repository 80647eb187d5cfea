-- Laws of numbers in memory that stand for times, of tables side by side, of the sizes of powers and of the search for a repeated one.
pub mod Times
pub mod Bounded
pub mod Chunked
pub mod Places
pub mod Searching

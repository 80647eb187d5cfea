pub mod Keeping
pub mod Searching

pub mod Leaving
pub mod Needed
pub mod Keeping
mod Tabled
pub mod Ranges

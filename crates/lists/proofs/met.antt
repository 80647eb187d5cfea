pub mod Seen
pub mod Growing
pub mod Covered

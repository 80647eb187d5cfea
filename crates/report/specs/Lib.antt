pub mod Text
pub mod Lengths
pub mod Examples

pub mod Parts
pub mod Few
pub mod LongInput
pub mod Shown

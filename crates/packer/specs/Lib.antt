-- How a pen and the output hold the bits that were written, and what a case without a fault keeps to.
pub mod Sound
pub mod Ink

-- What is asked and promised of the powers that are kept, and of the cycles.
pub mod Powers
pub mod Cycles

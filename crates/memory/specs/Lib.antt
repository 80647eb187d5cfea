-- Numbers in memory: what they stand for, and what is asked and promised of those who read and store them.
pub mod Numbers
pub mod Wide
pub mod Networks
pub mod Conditions
pub mod Side
pub mod Matrices

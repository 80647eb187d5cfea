-- Zones of numbers of 64 bits: what the numbers stand for, and what the functions require and ensure.
pub mod Numbers
pub mod Conditions

-- One try over numbers of 64 bits: what the numbers stand for, and what is asked and promised of the rows and of the columns.
pub mod Numbers
pub mod Rows
pub mod Trying

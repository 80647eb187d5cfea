-- The laws that the functions' proofs share; a caller's proof cites Ready.
mod Numbers
mod Building
mod Descending

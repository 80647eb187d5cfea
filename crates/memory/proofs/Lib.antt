-- The laws that the functions' proofs share. A caller's proof cites Places, Arrays and Zipped, and the laws of the loops over matrices, which hold
-- of numbers of any width: Fills, Relaxing, Toward, Leaving, Picked.
pub mod InHalves
pub mod Numbers
pub mod Places
pub mod Side
pub mod Arrays
pub mod Slots
pub mod Zipped
pub mod Cased
pub mod Room
pub mod Fills
pub mod Relaxing
pub mod Toward
pub mod Leaving
pub mod Picked

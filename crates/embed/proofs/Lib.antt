pub mod Arrays
pub mod ReadBack
pub mod Changed
pub mod Handed
pub mod Placed

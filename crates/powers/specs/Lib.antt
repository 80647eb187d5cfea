-- How the answer is read, and the condition of a product.
pub mod Readings

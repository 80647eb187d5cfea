-- Lists of zones in memory: what is asked and promised of the public functions, and of those inside.
pub mod Lists
pub mod Comparing
pub mod Selecting
pub mod Met
pub mod Inner

-- What the steps of a run ask for and give.
pub mod Steps

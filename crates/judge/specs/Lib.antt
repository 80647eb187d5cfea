-- What the judges answer, for every case.
pub mod Judgement

pub mod Finds
pub mod Verdicts
pub mod Answers

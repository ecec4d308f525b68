pub mod Words
pub mod Untold

pub mod Executes
pub mod Values

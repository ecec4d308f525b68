mod Ends
pub mod Digits
pub mod Quotes
pub mod Runs

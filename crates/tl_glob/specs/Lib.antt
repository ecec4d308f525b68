pub mod Matches
pub mod Errors

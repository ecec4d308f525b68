pub mod Finds
pub mod Lists

pub mod Items
pub mod Lists
pub mod Reading
pub mod Errors

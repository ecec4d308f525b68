pub mod Entries
pub mod Fronts
pub mod Folders
pub mod Places
pub mod Select
pub mod Trees

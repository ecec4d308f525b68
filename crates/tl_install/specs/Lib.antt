pub mod Fetched
pub mod Free
pub mod Install
pub mod Labels
pub mod Left
pub mod Steps

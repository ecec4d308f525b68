pub mod Endings
pub mod Labels
pub mod Loaded
pub mod Performs
pub mod Runs
pub mod Sessions
pub mod Steps
pub mod Whole

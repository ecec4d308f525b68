pub mod Targets
pub mod Trees
pub mod Acts
pub mod ReadBack
pub mod Turns
pub mod Spelling

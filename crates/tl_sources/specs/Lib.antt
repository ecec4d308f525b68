pub mod Expand
pub mod Performing

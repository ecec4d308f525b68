pub mod Sets
pub mod Updated
pub mod Unasked
pub mod Updating

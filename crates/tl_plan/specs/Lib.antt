pub mod Plans
pub mod Removal
pub mod Wanted

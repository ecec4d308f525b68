pub mod Listing
pub mod Restored
pub mod Restoring

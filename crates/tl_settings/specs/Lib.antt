pub mod Pinning
pub mod Settings

pub mod Backing
pub mod Continuing
pub mod Faults

pub mod Faults
pub mod Variables
pub mod Wanted
pub mod Effective
pub mod Pushing
pub mod Parts

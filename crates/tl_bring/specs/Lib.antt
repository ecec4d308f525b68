pub mod Reached
pub mod Coming
pub mod Installation

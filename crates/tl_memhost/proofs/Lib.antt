pub mod Apart
pub mod Back
pub mod Counted
pub mod Entered
pub mod Filled
pub mod Held
pub mod Picture
pub mod Telling

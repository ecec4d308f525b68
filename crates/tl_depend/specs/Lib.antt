pub mod Names
pub mod Reach
pub mod Order
pub mod Needed

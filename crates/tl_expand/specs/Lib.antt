pub mod Choices
pub mod Objects

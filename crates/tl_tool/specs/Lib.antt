pub mod Acts
pub mod Commands
pub mod Outsides
pub mod Top

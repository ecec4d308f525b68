pub mod Answers
pub mod Events
pub mod Frames
pub mod Scan
pub mod States

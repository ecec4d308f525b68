pub mod Answers
pub mod Copies
pub mod Demands
pub mod Rounds
pub mod Worlds

pub mod Dump
pub mod Check
pub mod Which
pub mod Opening
pub mod Info
pub mod Search
pub mod Candidates

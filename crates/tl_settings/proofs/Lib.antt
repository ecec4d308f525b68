pub mod Joined
pub mod Labels
pub mod PinLabels
pub mod RemoveLemmas

pub mod Answers
pub mod Listing
pub mod Marked
pub mod Masters
pub mod Sources

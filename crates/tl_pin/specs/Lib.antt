pub mod Form
pub mod Reading
pub mod Changes
pub mod Candidates

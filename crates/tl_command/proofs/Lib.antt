pub mod Databases
pub mod FileLemmas
pub mod Joins
pub mod Limits
pub mod Pending
pub mod Says
pub mod Wholes
pub mod LabelLaws

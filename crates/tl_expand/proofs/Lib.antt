pub mod ThenLemmas
pub mod FileLemmas
pub mod PartLemmas

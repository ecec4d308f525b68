pub mod FetchLemmas
pub mod FrameLemmas
pub mod OrderlyLaws
pub mod TakeLemmas
pub mod UnpackLemmas

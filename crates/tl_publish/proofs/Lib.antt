pub mod BelowLemmas
pub mod GatherLemmas
pub mod InsideLemmas
pub mod LowestLemmas
pub mod OwnLemmas
pub mod RunLemmas

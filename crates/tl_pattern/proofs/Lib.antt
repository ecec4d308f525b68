pub mod WalkLemmas
pub mod FormLemmas

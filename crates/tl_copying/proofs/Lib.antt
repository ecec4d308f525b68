pub mod OneLemmas
pub mod ProgressLemmas
pub mod RoundLemmas
pub mod WorldLemmas

pub mod FindLemmas
pub mod VerdictLemmas

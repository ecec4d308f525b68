pub mod VerdictLemmas
pub mod JudgeLemmas
pub mod ReplaceLemmas
pub mod CompileLemmas
pub mod LoopLemmas

pub mod CutLemmas
pub mod FeedLemmas

pub mod FrontLemmas
pub mod EntryLemmas
pub mod PlaceLemmas
pub mod FolderLemmas
pub mod TreeLemmas
pub mod SelectLemmas

pub mod DigestLemmas
pub mod LoadLemmas
pub mod ShelfLemmas

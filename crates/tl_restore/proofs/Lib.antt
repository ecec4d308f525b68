pub mod EndLaws
pub mod EntryNames
pub mod Labels
pub mod Lines
pub mod PutLaws
pub mod ReadLaws

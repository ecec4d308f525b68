pub mod Labels
pub mod Finding

pub mod Feeds
pub mod Asked

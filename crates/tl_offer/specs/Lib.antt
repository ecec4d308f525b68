pub mod Pinned
pub mod Offered

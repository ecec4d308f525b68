pub mod Drops
pub mod Named
pub mod Seen
pub mod Places
pub mod Fit

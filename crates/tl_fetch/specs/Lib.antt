pub mod Containers
pub mod Fetching
pub mod Sinks
pub mod Unpacked

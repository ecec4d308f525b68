pub mod Databases
pub mod Files

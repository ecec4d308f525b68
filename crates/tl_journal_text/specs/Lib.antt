pub mod Body
pub mod Records
pub mod Slots
pub mod Spelling
pub mod Stand

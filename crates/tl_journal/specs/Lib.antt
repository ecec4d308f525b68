pub mod Acting
pub mod Asked
pub mod Faults
pub mod Items
pub mod Reading
pub mod Spent
pub mod States
pub mod Touching

pub mod Forms
pub mod Table
pub mod Texts
pub mod Actions
pub mod Usage

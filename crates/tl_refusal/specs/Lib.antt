pub mod Fields
pub mod Kinds
pub mod Refusals
pub mod Values

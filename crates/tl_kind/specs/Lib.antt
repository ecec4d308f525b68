pub mod Kinds
pub mod Quantities

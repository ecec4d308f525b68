pub mod Fronts
pub mod Keys
pub mod Repeats
pub mod Touching
pub mod Walks

pub mod Stands
pub mod Rises
pub mod Pieces
pub mod Found

pub mod Listable
pub mod Lsr
pub mod Owning
pub mod Walk

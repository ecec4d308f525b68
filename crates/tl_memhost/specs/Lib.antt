pub mod Devices
pub mod Given
pub mod Held
pub mod Memory
pub mod Record
pub mod Shelves
pub mod Stop

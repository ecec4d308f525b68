pub mod Asked
pub mod Autobackup
pub mod Files
pub mod Form
pub mod Frames
pub mod Listed
pub mod Ordered

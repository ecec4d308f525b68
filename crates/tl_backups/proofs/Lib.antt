pub mod BackupLabels
pub mod Continuing
pub mod Named
pub mod Packages
pub mod ReadLabels

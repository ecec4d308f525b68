pub mod ReachLaws
pub mod InstallLaws
pub mod ArrivalLaws

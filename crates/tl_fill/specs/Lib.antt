pub mod Ends
pub mod Filling
pub mod Halts
pub mod StepSinks
pub mod Wanted

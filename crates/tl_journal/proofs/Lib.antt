mod Called
mod Commits
mod Doing
mod Fronts
mod Gates
pub mod Left
mod Live
mod Pieces
mod Resumed
mod Staged
pub mod Stagings

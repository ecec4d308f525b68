pub mod Text
pub mod Reading
pub mod Entries
pub mod Options
pub mod Canonical

pub mod Refused
pub mod Listings
pub mod Asked
pub mod Parts
pub mod Cuts
pub mod Lasts
pub mod Planning
pub mod Made

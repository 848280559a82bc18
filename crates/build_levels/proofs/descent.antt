pub mod Ways
pub mod Merges
pub mod Regions
pub mod Levels
pub mod Arriving

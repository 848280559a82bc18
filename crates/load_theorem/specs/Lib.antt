pub mod Levels
pub mod Sums

pub mod Options
pub mod Counts

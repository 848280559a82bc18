pub mod Ways
pub mod Counting

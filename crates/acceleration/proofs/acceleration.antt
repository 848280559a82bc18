pub mod Twice
pub mod Ways

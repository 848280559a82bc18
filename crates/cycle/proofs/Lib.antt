pub mod Steps
pub mod Ways

pub mod Ways
pub mod Room

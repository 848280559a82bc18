pub mod Summing
pub mod Moving
pub mod Shadowing

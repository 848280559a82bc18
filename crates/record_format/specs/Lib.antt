pub mod Bytes
pub mod Format
pub mod Answers
pub mod Steps
pub mod Writing
pub mod Theorem

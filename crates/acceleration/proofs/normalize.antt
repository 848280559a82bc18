pub mod Vectors
pub mod Normal

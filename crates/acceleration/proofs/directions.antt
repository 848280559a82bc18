pub mod Vectors
pub mod Passes

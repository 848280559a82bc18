pub mod Vectors
pub mod Moved

pub mod Dot
pub mod Finite
pub mod Turns

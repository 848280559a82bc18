pub mod Solving
pub mod Examples

pub mod Region
pub mod Turns

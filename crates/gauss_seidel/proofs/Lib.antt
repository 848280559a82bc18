pub mod Turns
pub mod Sweeps

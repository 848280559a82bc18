pub mod Scratch
pub mod Trace
pub mod Work

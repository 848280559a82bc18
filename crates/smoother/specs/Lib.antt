pub mod Smooth
pub mod Scratch

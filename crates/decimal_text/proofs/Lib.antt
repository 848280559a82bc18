pub mod Digits
pub mod Value
pub mod Same
pub mod Writing
pub mod Trip
mod Examples

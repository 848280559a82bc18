pub mod Text
pub mod Writing
pub mod Turns
pub mod Contract
pub mod Sized
pub mod Theorem

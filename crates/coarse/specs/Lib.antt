pub mod Terminal
pub mod Contract
pub mod Turns

pub mod Pairs
pub mod Layout
pub mod Turns
pub mod Contract

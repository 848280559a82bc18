pub mod Whole
pub mod Product
pub mod Values
pub mod Contract
pub mod Turns

pub mod Measure
pub mod Normalization
pub mod Turns
pub mod Contract

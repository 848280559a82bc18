pub mod Questions
pub mod Weights
pub mod Turns
pub mod Contract

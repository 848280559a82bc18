pub mod Iteration
pub mod System
pub mod Steps
pub mod Iterate
pub mod Contract

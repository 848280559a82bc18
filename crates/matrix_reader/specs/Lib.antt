pub mod File
pub mod Contract
pub mod Steps
pub mod Writes
pub mod Whole

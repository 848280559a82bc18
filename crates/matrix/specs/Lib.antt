pub mod Contract
pub mod Kernel
pub mod Turns

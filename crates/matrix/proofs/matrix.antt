pub mod Turns
pub mod Kernel
pub mod Examples

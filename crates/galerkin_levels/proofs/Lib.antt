pub mod Dense
pub mod Down
pub mod Kernel
pub mod Steps
pub mod Finest
pub mod Merged
pub mod Theorem
pub mod Example

pub mod Box
pub mod Draw
pub mod Load
pub mod Call
pub mod Steps
pub mod Theorem

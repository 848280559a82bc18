pub mod Input
pub mod Copies
pub mod Solve
pub mod Solved
pub mod Contract
pub mod Steps

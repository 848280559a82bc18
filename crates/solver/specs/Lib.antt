pub mod Solver
pub mod Statistics
pub mod Updates

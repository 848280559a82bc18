pub mod Pattern
pub mod Coarsening
pub mod Steps

pub mod Regions
pub mod Coupling
pub mod Forming
pub mod Stepping

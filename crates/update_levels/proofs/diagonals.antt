pub mod Outcomes
pub mod Standing

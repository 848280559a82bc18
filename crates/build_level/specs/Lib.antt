pub mod LayingContract
pub mod Inner
pub mod Steps
pub mod CoarsestContract

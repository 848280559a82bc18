mod Table
pub mod Outcome

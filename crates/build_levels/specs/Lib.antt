pub mod DescentContract
pub mod Steps
pub mod GrowingContract
pub mod Ahead

pub mod Chain
pub mod First
pub mod Whole

pub mod Whole
pub mod Sums
pub mod Product

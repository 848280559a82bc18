pub mod Lists
pub mod Whole
pub mod Rows
pub mod Mirrors
pub mod Cell
pub mod Walk
pub mod Flat
pub mod Rising
pub mod Neat
pub mod Pattern
pub mod Values
pub mod Sums
mod Examples

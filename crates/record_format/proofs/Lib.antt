pub mod Reading
pub mod Records
pub mod Numbers
pub mod Written
pub mod Placing
pub mod Back
pub mod Forth
pub mod ReadBack
mod Examples

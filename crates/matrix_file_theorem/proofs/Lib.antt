pub mod Values
pub mod Joined
pub mod Rows
pub mod Arrays
pub mod Record
pub mod Theorem
mod Examples

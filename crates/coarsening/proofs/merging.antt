pub mod Questions
pub mod Pairing
pub mod Joining
pub mod Steps

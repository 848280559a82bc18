pub mod Levels
pub mod Ring
pub mod Steps

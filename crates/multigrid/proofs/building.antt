pub mod Reading
pub mod Builds
pub mod Publishing
pub mod Refused
pub mod Stores

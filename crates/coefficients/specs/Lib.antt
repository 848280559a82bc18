pub mod Update
pub mod Mirrors
pub mod Contract

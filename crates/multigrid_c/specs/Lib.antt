pub mod Exported
pub mod Loads

pub mod Field
pub mod Figures
pub mod Contract

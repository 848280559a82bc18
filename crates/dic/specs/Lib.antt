pub mod Contract
pub mod Dic
pub mod Turns

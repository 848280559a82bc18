pub mod Turns
pub mod Dic

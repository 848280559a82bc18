pub mod Run
pub mod Acting

pub mod Asking
pub mod Finest
pub mod Built
pub mod Steps
pub mod AskingContract

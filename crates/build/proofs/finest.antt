pub mod Copies
pub mod Mirroring
pub mod First

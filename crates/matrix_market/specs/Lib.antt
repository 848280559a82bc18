pub mod Lines
pub mod Walk
pub mod Entries
pub mod Placed
pub mod Told

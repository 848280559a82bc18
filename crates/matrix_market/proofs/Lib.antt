pub mod Pieces
pub mod Fields
pub mod Data
pub mod Told

pub mod Built
pub mod Faces
pub mod Levels
pub mod Running
pub mod Theorem

pub mod Mirror
pub mod Faces
pub mod Theorem

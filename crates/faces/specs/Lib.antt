pub mod Faces
pub mod Contract
pub mod Steps

pub mod Words
pub mod Faces
pub mod Values
pub mod Levels
pub mod Choosing

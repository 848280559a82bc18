pub mod Triangles
pub mod Sums

pub mod Triangle
pub mod Factor
pub mod Contract
pub mod TriangularFactor
pub mod TriangularContract
pub mod Turns
pub mod TriangleContract

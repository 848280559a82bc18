pub mod Float
pub mod Sqrt
pub mod Saturating

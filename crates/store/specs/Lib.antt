pub mod Loop
pub mod Region
pub mod Vector
pub mod Held

pub mod Placing
pub mod Moving
pub mod Advancing

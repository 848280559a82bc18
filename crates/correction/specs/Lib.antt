pub mod Transfer
pub mod Correction
pub mod Scaled
pub mod Scaling

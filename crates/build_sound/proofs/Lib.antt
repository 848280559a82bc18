pub mod Growth
pub mod Reading
pub mod Charges
pub mod Sound

pub mod Digit
pub mod Floor
pub mod Round
pub mod Pack
pub mod Split
pub mod Nearest

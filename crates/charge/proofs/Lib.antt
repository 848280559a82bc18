pub mod Caps
pub mod Spares
pub mod Suffices

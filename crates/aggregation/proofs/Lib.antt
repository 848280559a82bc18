pub mod Sizes
pub mod Steps
pub mod Numbers
pub mod Count
pub mod Caps
pub mod Laws

pub mod Copying
pub mod Updating
pub mod First
pub mod Sounding

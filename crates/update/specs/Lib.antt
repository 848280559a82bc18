pub mod Arrays
pub mod Updated
pub mod Steps
pub mod ShadowContract

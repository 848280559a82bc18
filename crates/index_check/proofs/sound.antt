pub mod Laws
pub mod Sizes
pub mod Question
pub mod Walks
pub mod Facts
pub mod Accepts

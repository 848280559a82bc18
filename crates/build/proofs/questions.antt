pub mod Products
pub mod Chains
pub mod Passing

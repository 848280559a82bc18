pub mod Chains
pub mod Turning
pub mod Renewing

pub mod Twice
pub mod Accepted
pub mod Proper
pub mod First
pub mod Examples
pub mod Depth

pub mod Level
pub mod Refresh
pub mod Build
pub mod Shapes
pub mod Proper
pub mod First
pub mod Depth
pub mod Steps

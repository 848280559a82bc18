pub mod Standing
pub mod Level
pub mod Update
pub mod Steps
pub mod StandingContract

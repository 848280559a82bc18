pub mod Cycle
pub mod Visit
pub mod Contract
pub mod Counters

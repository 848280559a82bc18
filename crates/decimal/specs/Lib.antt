pub mod Decimal
pub mod Contract
pub mod Theorem

pub mod Bytes
pub mod Search
pub mod Asking
pub mod Record
pub mod Laying
pub mod Done
pub mod Grammar
pub mod Entries
mod Examples

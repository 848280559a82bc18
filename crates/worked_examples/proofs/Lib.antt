pub mod Starred
mod Examples

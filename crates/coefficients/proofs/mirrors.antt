pub mod Mirrors
mod Examples

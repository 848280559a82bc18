pub mod UpdateLaws
mod Examples

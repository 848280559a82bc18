pub mod Walking
pub mod Question

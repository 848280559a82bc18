pub mod CoarsenContract
pub mod MergingContract
pub mod Steps

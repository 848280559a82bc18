pub mod Trace
pub mod ScratchWords
pub mod ScratchFloats
pub mod Scratch
pub mod SolveWork
pub mod Work

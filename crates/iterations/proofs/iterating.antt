pub mod Iterations

pub mod Smoothing

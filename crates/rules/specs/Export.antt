pub mod Samples

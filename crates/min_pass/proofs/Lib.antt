pub mod Sweeping
pub mod Lighter

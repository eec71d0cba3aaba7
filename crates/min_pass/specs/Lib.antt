pub mod Around
pub mod Pass
pub mod Sweep

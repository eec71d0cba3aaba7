pub mod Places
pub mod Parts
pub mod Nesting
pub mod Samples

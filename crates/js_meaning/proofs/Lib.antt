pub mod Computes
pub mod Same
pub mod Depth
pub mod Kept

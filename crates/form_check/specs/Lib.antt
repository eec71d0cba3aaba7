pub mod Check
pub mod Sought
pub mod Parts

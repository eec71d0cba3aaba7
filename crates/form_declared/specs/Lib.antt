pub mod Part
pub mod Sought

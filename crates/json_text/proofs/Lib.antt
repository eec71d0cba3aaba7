pub mod Plain
pub mod Levels

pub mod Flag
pub mod Taken

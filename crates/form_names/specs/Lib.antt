pub mod Names
pub mod Sorts
pub mod Halves
pub mod Words

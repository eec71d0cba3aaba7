pub mod Ending
pub mod Left

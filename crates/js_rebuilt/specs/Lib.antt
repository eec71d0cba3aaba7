pub mod Rebuilt
pub mod Rows

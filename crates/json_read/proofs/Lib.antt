pub mod Causes
pub mod Fields
pub mod Steps
pub mod Shapes

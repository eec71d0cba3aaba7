pub mod Field
pub mod Script
pub mod Held
pub mod Answer

pub mod Quiet
pub mod Silent
pub mod Acts
pub mod Rows

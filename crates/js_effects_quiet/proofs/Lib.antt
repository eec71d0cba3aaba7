pub mod Quiet
pub mod Silent
pub mod Marks
pub mod Operators
pub mod Acts
pub mod Taken

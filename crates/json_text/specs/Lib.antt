pub mod Fault
pub mod Plain
pub mod Reading
pub mod Text
pub mod Answer

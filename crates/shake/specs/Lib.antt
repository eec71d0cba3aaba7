pub mod Code
pub mod Line
pub mod Run
pub mod Answer
pub mod Fault
pub mod Ran

pub mod Rules
pub mod Repeated
pub mod Merged
pub mod Passed
pub mod Quiet
pub mod Samples

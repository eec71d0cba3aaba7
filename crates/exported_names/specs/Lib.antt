pub mod Answers
pub mod Exported
pub mod Placed
pub mod Samples

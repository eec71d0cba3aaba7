pub mod Running
pub mod Answer

pub mod Counting
pub mod Cleared
pub mod Leaves

pub mod Placed
pub mod Agreeing
pub mod Standing
pub mod Rows
pub mod Assigning

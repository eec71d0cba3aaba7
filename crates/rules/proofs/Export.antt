pub mod Gathered
pub mod Going
pub mod Staying
pub mod Inner
pub mod Edited
pub mod Tried

pub mod Uid
pub mod Kept
pub mod Fresh
pub mod Tried

pub mod Finding
pub mod Dying
pub mod Importing
pub mod Deciding
pub mod Cleaned
mod Tried

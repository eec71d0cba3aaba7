pub mod Moving
mod Rows
mod Visiting
pub mod Joining
mod Slots

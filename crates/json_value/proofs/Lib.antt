mod Reading
mod Turns
pub mod Views

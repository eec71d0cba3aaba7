mod Extras
mod Outcomes
pub mod Rows
pub mod Steps

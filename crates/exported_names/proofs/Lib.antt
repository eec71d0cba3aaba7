mod Listing
mod Walked
mod Telling
pub mod Placing
pub mod New

pub mod Bodies
pub mod Cleaning

pub mod Answering
pub mod Telling
pub mod Leaving
pub mod Running

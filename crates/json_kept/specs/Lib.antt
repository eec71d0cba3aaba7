pub mod Respelled
pub mod Signs
pub mod Samples

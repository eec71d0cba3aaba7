pub mod Ordered
pub mod Written
pub mod Search

pub mod Resolved
pub mod Promise

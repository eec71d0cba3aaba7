pub mod Sending
pub mod Taking
mod Walks
pub mod Histories

pub mod Export
pub mod Held
pub mod Way

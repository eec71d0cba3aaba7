pub mod Fields
pub mod Going
pub mod Named
pub mod Script
pub mod World

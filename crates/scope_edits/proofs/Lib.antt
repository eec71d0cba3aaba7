pub mod Chains
pub mod Moved
pub mod Pruned
pub mod Refreshed

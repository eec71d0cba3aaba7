pub mod Core
pub mod Causes

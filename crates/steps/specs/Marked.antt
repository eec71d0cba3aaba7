pub mod Flags
pub mod Samples
pub mod Exports
pub mod Told

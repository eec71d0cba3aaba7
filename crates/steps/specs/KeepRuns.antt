pub mod Formed
pub mod Drop
pub mod Tidy
pub mod Once
pub mod Many
pub mod Assigned
pub mod SilentFunction
pub mod Ways

pub mod Shape
pub mod Exact
pub mod Readable

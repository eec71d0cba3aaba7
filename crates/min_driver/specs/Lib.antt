pub mod Counting
pub mod Limit
pub mod Minify
pub mod Left

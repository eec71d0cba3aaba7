pub mod Build
pub mod Worked

pub mod Swept
pub mod Rows
pub mod Planned
pub mod Inside
pub mod Emptied

pub mod Entry
pub mod Entries
pub mod Members
pub mod Form

pub mod Renumbered
pub mod Exact
pub mod Counted
pub mod Place
pub mod Rows
pub mod Lists
pub mod Parents

pub mod Globals
pub mod Lists
pub mod Members
pub mod Pairs

pub mod Traversed
pub mod Below
pub mod Names
pub mod Lending
pub mod Identifier
pub mod Worded

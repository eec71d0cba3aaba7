pub mod Texts
pub mod Plain
pub mod Has
pub mod Declared

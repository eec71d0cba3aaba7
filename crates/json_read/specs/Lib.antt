pub mod Kind
pub mod Held

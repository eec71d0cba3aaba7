pub mod Row
pub mod Layout
pub mod Part
pub mod Sheds

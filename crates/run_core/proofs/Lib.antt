pub mod Below
pub mod Turn
mod Steps

pub mod DeadCode
pub mod Imports
pub mod Expressions
pub mod Told
pub mod Export
pub mod Slots

pub mod Missed
pub mod Statements
pub mod Expressions
pub mod Had

pub mod Clashing
pub mod Firsts
pub mod Known
pub mod Repeating
pub mod Names
pub mod Words

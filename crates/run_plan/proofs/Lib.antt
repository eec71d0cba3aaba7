pub mod Law
mod Rows

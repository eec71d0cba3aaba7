pub mod Operands
mod Objects
mod Pushed

pub mod Body
pub mod Sorted
pub mod Machine

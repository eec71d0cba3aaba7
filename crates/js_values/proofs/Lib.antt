pub mod Gives
pub mod Shows
pub mod Operators
pub mod Binary
pub mod Told
pub mod Values
pub mod Plain

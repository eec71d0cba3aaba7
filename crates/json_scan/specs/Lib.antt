pub mod Extra
pub mod Outcome
pub mod Place
pub mod Scan
pub mod Scalar

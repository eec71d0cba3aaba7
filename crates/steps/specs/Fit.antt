pub mod Clear
pub mod Hoisted
pub mod Catches
pub mod Enclosed
pub mod Plain
pub mod Sensible

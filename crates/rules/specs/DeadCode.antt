pub mod Rules
pub mod Knows
pub mod Quiet
pub mod Before
pub mod Samples

pub mod Made
pub mod Fitting
pub mod Walking

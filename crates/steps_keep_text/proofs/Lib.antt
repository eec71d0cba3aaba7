pub mod Along
pub mod Picked
pub mod KeptNames
pub mod Smaller
pub mod StillRead
pub mod Computed
pub mod ReadBack
pub mod SignsApplied

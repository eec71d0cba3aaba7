pub mod Count
pub mod Names
pub mod Parts
pub mod Weight
pub mod Walk

pub mod Default
pub mod Otherwise
pub mod Truth
pub mod Sources

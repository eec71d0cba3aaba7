pub mod CleanBy
pub mod Between
pub mod Walked
pub mod Shaken
pub mod Quiet

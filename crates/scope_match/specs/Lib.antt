pub mod Items
pub mod Matches
pub mod Candidates
pub mod Keys
pub mod Parts
pub mod Leftover

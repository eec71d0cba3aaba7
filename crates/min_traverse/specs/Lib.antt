pub mod Slot
pub mod Edits
pub mod Moves
pub mod Visits
pub mod Lawful

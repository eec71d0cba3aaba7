pub mod Frame
pub mod Name

pub mod Ask
pub mod Frame
pub mod Held
pub mod Law
pub mod Taken
pub mod First
pub mod Front

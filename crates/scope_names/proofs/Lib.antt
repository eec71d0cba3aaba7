pub mod Keys
pub mod Layers
pub mod Firsts

pub mod Shows
pub mod Keys

pub mod Keys
pub mod Places
pub mod Numbers
pub mod Indexed

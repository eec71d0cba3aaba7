pub mod Told
pub mod Taken
pub mod ByForm
pub mod Alone

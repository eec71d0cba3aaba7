pub mod Clean
pub mod Lasting
pub mod Headline

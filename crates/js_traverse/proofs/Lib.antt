mod Moved
mod Upward

mod Index
mod Rows
mod Private

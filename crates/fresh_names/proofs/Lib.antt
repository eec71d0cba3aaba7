mod Read
mod Kept
mod Written
mod Fresh

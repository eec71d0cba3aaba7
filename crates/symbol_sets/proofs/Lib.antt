mod Calls
mod Listed

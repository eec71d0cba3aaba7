mod Lists
mod Allowed
mod Editing
mod Calling
mod Looking

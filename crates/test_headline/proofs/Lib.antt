mod Runs
mod Refused
mod Left
mod Dead
mod Stated
mod Imported
mod Named

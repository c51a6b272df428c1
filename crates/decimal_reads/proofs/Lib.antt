mod Booleans
mod Steps

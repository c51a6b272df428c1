mod Broken
mod Separated
mod Shown

mod Bare
mod Readings
mod Sorted

mod Parts
mod Placed

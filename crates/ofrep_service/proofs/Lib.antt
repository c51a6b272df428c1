mod Crossings
mod Recalling
mod Resting

mod Ends
mod Same

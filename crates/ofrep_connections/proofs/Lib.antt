mod Peers
mod Sockets
mod Fronts
mod Turns
mod Statuses

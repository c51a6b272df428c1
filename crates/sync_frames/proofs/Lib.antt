pub mod Fed
pub mod Feeds
pub mod Headers
pub mod Sent
pub mod Streams
pub mod Wholes

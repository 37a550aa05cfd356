pub mod Answering
pub mod Opening
pub mod Opened
pub mod Passes
pub mod Sockets

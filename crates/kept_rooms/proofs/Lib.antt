mod Opened
mod SeenGrow
mod Turned
mod Followed

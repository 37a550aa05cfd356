pub mod Disk
pub mod Kept
pub mod Tail
pub mod Turn
pub mod Memory
pub mod Internal

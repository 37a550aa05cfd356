pub mod Lines
pub mod AnsweredRequests
pub mod LineBytes
pub mod ServedLines
pub mod Calls
pub mod Counting
pub mod Carrying
pub mod Internal

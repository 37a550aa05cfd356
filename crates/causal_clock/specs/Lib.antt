pub mod Listing
pub mod Stored
pub mod Logged
pub mod Internal

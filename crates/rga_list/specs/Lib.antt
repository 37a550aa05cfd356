pub mod Entries
pub mod Listed
pub mod Internal

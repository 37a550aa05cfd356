-- The lemmas of this crate.
pub mod Numbered
mod Entries

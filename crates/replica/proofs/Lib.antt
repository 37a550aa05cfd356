-- The lemmas of this crate.
pub mod SitePlaces
pub mod Numbers
pub mod Clocks
pub mod Rounds
pub mod Checks
pub mod Parts
pub mod Lawfully
pub mod Stated
pub mod Submitted

-- The lemmas of this crate.
pub mod Numbers
pub mod Places
pub mod Sameness
pub mod Firsts
pub mod Stated
pub mod Slotted

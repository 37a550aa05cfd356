mod Cutting
mod Plain
pub mod Digests
mod Telling
pub mod ReadLines
pub mod WrittenLines
pub mod TornLines

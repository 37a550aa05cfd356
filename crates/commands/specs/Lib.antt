pub mod Played
pub mod Plays
pub mod Endings
pub mod Script
pub mod Worlds
pub mod Internal

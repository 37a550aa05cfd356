pub mod Playing
pub mod Words
pub mod Answering

pub mod Insides
pub mod Asking

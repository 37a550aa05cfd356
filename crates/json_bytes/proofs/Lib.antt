pub mod Come
pub mod Digits
pub mod Plainly
pub mod PlainText
pub mod PlainNumber
pub mod Escapes

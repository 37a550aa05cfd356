pub mod Plain
pub mod Quote
pub mod Internal

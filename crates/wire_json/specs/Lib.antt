pub mod Line
pub mod Request
pub mod Text
pub mod Part
pub mod Internal

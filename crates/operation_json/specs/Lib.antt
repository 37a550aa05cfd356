pub mod ItemTokens
pub mod Members
pub mod Operations
pub mod PackedOperations
pub mod Packing
pub mod Results
pub mod Text
pub mod Internal

pub mod Following
pub mod Lending

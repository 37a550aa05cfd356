pub mod SeenLogs
pub mod Keeping
pub mod Covered
pub mod Openings
pub mod Outputs

pub mod Failure
pub mod Status

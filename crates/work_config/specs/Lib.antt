pub mod Configuration
pub mod Fault
pub mod Sending

pub mod SentJobs
pub mod Pool
pub mod Outcome

pub mod Diagnosis
pub mod Unchecked
pub mod Fault
pub mod Stretches
pub mod Parts
pub mod Shares

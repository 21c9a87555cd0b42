pub mod Disk
pub mod Files
pub mod View
pub mod Steps
pub mod Texts
pub mod Roots

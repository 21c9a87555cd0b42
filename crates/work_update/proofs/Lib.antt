pub mod Stayed
pub mod FilesMoves
pub mod Unimported
pub mod Arrived
pub mod ByPath
pub mod Updates

pub mod Stayed
pub mod FilesMoves
pub mod Arrivals
pub mod Updates

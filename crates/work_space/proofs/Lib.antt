pub mod Held
pub mod FirstEvents
pub mod Noted
pub mod Crossing
mod Keeps

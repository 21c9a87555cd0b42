pub mod Edited
pub mod Bindings
pub mod Quiet

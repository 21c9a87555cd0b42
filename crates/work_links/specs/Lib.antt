pub mod Keys
pub mod Asked
pub mod Touched
pub mod Laws

pub mod Stream
pub mod Serving

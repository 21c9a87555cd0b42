pub mod Changed
pub mod LinkedAgain
pub mod KeptFiles

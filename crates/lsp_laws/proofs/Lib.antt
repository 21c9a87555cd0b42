mod BoardTexts
pub mod Documents
mod EditedFiles
mod EditedUris
mod FileUris
pub mod Groups
mod WorkedMessages

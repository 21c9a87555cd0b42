pub mod Session
pub mod Core
pub mod BoardEvents
pub mod Run
pub mod Steps
pub mod View

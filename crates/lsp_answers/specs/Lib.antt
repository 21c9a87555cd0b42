pub mod Context
pub mod Ranges
pub mod Diagnostics
pub mod Reports
pub mod Answers
pub mod Questions
pub mod Views

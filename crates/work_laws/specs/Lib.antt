pub mod EditLaws
pub mod UseLaws

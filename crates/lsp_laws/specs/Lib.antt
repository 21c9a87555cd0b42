pub mod CoreLaws
pub mod DocumentLaws
pub mod UriLaws

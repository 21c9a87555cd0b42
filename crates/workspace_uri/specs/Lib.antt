pub mod Laws
pub mod Path
pub mod Uri
pub mod View

pub mod Alike
pub mod Components
pub mod Edits
pub mod Renames
pub mod Uses

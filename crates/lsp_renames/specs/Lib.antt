pub mod Edited
pub mod ByFile
pub mod Cutting
pub mod Fault
pub mod UnknownUses
pub mod Renaming
pub mod RenamingLaws

pub mod AskedAlone
pub mod AskedNames
pub mod Alike
pub mod Declared
pub mod NamedByFile
pub mod TouchedNames
pub mod MovedNames

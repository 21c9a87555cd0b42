pub mod OtherTexts
pub mod Alike
pub mod FileByFile
pub mod Meaning
pub mod Quiet
pub mod TextsByFile

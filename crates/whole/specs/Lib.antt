pub mod Word
pub mod Whole

pub mod Spelling
pub mod Telling

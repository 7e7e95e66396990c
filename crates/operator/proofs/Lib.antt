pub mod Cutting
pub mod Sayings

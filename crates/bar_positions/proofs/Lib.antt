pub mod Stops
pub mod Threes
pub mod Spelt

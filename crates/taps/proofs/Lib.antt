pub mod Reaching
pub mod Climbing

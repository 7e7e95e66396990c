pub mod Tried
pub mod Counting
pub mod Held
pub mod Finding

pub mod Cues
pub mod Held

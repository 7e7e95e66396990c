pub mod Currents
pub mod Beginning
pub mod Strict
pub mod Ceiling
pub mod Adding
pub mod Linking
pub mod Counted
pub mod Cutting

pub mod Layers
pub mod Piles
pub mod Pairs
pub mod Samples
pub mod Changes
pub mod Positions

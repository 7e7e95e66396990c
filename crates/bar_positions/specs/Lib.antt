pub mod BarPositions
pub mod Reached
pub mod Spellings
pub mod Laws
pub mod Within
pub mod Standing
pub mod Ordering

pub mod Answers
pub mod Fnv
pub mod Spots
pub mod Tallies

pub mod Found
pub mod Moves
pub mod Rises

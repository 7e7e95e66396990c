pub mod World
pub mod Accepted
pub mod Contents
pub mod Laws

pub mod Begun
pub mod Current
pub mod Sums
pub mod Chains

pub mod Meaning
pub mod Scale
pub mod Rates
pub mod Ratio
pub mod Ratios
pub mod Locates
pub mod Tally
pub mod Scales

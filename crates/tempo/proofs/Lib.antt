pub mod RateTable
pub mod Answering
pub mod Kept
pub mod Summing

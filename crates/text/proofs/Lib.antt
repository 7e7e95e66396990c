pub mod Figures
pub mod Reading
pub mod Loans
pub mod Chains
pub mod Marks

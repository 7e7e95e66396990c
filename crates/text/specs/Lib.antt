pub mod Decimal
pub mod Writer
pub mod Lines

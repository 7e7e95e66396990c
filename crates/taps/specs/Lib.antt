pub mod Rules
pub mod Tables
pub mod Making
pub mod Climbs

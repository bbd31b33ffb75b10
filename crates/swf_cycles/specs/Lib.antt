pub mod Cycles
pub mod Search

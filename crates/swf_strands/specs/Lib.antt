pub mod Strands
pub mod Ways
pub mod Forks
pub mod Order
pub mod Alarm

pub mod Alarms
pub mod Queue

pub mod ReachLemmas
pub mod StepLemmas
pub mod Groups
pub mod Closing
pub mod Running

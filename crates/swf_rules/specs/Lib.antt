pub mod Goals
pub mod Verdicts
pub mod Settles
pub mod Woken

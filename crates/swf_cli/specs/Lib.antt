pub mod Statuses
pub mod Shown
pub mod Running

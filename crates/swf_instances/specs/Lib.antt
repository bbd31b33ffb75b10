pub mod Held
pub mod Queued
pub mod Waits
pub mod Kept
pub mod Takes
pub mod Offers
pub mod Replies

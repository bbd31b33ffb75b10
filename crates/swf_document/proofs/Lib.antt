pub mod Problems
pub mod Sent
pub mod Weights

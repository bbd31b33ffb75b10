pub mod Capped
pub mod Duration

pub mod Stack
pub mod Stands
pub mod Kept

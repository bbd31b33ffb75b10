pub mod Setting
pub mod Halts
pub mod Sights

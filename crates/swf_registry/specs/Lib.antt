pub mod UsedKey
pub mod Held

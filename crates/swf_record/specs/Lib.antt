pub mod Encodes
pub mod Decodes
pub mod Told

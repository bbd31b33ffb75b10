pub mod Fill
pub mod Filter
pub mod Uris

pub mod Bytes
pub mod Fields
pub mod Events
pub mod Laws
pub mod Read

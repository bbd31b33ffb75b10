pub mod HeaderCode
pub mod Headers
pub mod Reply
pub mod Codes
pub mod Request

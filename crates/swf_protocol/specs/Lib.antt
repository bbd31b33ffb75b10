pub mod Words
pub mod Number
pub mod Verbs
pub mod Reading
pub mod Line
pub mod Spoken
pub mod Sayable
pub mod Spelled

pub mod Words
pub mod Arguments

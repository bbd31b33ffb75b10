pub mod Literals
pub mod PrintingSteps
pub mod TextReading
pub mod ReadBack

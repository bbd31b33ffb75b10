pub mod Parts
pub mod Reads
pub mod Answer

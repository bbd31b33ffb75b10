pub mod Same
pub mod Ascii
pub mod Size
pub mod Pointer

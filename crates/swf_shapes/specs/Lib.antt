pub mod Shapes
pub mod Row
pub mod Layout
pub mod Faults

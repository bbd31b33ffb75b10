pub mod Own
pub mod OwnLaws
pub mod Slices
pub mod SliceLaws

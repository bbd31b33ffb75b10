pub mod Wanted
pub mod Listeners
pub mod Marks

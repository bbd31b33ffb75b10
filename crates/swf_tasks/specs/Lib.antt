pub mod Installed
pub mod Stepped
pub mod Views
pub mod Taken
pub mod Prepares

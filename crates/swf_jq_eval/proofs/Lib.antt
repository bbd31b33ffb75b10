pub mod Runs
pub mod Applied
pub mod Calls
pub mod Scopes
pub mod Weights
pub mod Constants

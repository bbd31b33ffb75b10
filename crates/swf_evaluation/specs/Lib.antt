pub mod Operations
pub mod Builtins
pub mod Run
pub mod Outputs
pub mod Turns
pub mod VariableCode
pub mod Scopes
pub mod Evaluate

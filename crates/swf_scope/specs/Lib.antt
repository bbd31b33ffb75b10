pub mod Names
pub mod NamesView
pub mod PartFaults
pub mod Scope
pub mod ScopeView
pub mod Spots
pub mod Variables
pub mod VariablesView

pub mod Lighter
pub mod NamesLemmas

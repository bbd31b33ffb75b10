pub mod Tree
pub mod Paths
pub mod TreeCode
pub mod Stacks
pub mod Kin
pub mod Lends
pub mod Faults
pub mod Room

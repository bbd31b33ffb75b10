pub mod Lists
pub mod Lighter
pub mod Trees
pub mod Templates
pub mod TaskLists
pub mod Nodes

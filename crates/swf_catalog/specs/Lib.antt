pub mod Numbers
pub mod Rows
pub mod Rounds
pub mod TaskRef
pub mod Words
pub mod Loads
pub mod HeldDocuments

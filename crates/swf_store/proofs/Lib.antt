pub mod CallLemmas
pub mod Chain
pub mod Clauses
pub mod FileLemmas
mod Harmed
mod Kept
pub mod Moments
mod PutLemmas

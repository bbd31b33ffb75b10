pub mod MarkLemmas
pub mod WantedLemmas
pub mod WhoLemmas

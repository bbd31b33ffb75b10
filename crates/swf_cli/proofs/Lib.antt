pub mod SessionLemmas
pub mod OpeningLemmas
pub mod ShowLemmas
pub mod CheckLemmas

pub mod ReadLemmas
pub mod AnswerLemmas
pub mod TaskLemmas

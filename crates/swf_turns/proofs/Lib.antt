pub mod SettlingLemmas
pub mod AnswerLemmas
pub mod FaultLemmas
pub mod TurnLemmas
pub mod TurnListLemmas
pub mod SoundLemmas
pub mod HeardLemmas

pub mod HearLemmas
pub mod OfferLemmas
pub mod EventTypeLemmas
pub mod CallLemmas
pub mod OpenLemmas
pub mod AnswerLemmas
pub mod AnsweredLemmas
pub mod ListenLemmas

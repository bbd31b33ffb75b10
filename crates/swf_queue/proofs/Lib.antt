pub mod AlarmLemmas
pub mod FlagLemmas

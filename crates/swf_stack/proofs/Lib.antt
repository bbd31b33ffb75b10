pub mod RoundLemmas
pub mod StandLemmas
pub mod Sends

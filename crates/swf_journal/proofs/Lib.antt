mod AppendLemmas
pub mod FrameLemmas
mod HeadLemmas
mod JournalCallLemmas
pub mod OpenLemmas
pub mod StandsLemmas

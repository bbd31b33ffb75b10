pub mod SightLemmas
pub mod SettingLemmas
pub mod HaltLemmas
pub mod SettingSends

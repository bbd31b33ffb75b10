pub mod Lookups
pub mod StepLemmas
pub mod Grows
pub mod RefusalLaws
pub mod Checks
pub mod NextLemmas
pub mod EarlyLemmas

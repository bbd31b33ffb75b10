pub mod ListenLemmas
pub mod ForkLemmas

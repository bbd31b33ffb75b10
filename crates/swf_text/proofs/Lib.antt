pub mod SameLemmas
pub mod TextLemmas
pub mod Utf8Order

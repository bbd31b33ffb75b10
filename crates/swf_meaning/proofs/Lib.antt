pub mod TopsLemmas
pub mod ReplyLemmas

pub mod HeaderLemmas
pub mod FieldLemmas
pub mod ReplyLemmas
pub mod ValueLemmas

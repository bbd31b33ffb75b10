pub mod Expression
pub mod Forms

pub mod ExprLemmas
pub mod DropLemmas

pub mod TaskLemmas
pub mod NumberLemmas
pub mod ChildLemmas
pub mod IterationLemmas
pub mod VersionLemmas
pub mod DocumentLemmas
pub mod FunctionLemmas
pub mod TaskSends

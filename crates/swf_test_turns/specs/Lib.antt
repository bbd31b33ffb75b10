pub mod Bell
pub mod Examples

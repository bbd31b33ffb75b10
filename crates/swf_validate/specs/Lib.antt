pub mod Calls
pub mod Count
pub mod DocumentFaults
pub mod Accepts
pub mod TaskFaults

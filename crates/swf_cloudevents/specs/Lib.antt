pub mod Base64
pub mod Time
pub mod Faults
pub mod FaultWord
pub mod First
pub mod Event
pub mod EventLaws
pub mod Codes

pub mod Clients
pub mod Desks
pub mod Answered

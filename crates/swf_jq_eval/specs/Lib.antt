pub mod Goes
pub mod Names
pub mod Steps
pub mod Inner
pub mod Chosen

pub mod Equal
pub mod Joined
pub mod Reserved
pub mod Steps
pub mod Within

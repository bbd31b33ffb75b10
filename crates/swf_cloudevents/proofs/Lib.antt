pub mod Texts
pub mod Firsts
pub mod Others
pub mod Puts
pub mod Kept
pub mod Trips

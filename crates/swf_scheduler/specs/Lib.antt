pub mod Closed
pub mod Crew
pub mod Gathering
pub mod Hired
pub mod Roster
pub mod Rule
pub mod Sending
pub mod Worked

pub mod Outcome
pub mod MapMembers
pub mod Caps
pub mod Drafts

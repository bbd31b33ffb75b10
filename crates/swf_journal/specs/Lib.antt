pub mod Appending
pub mod Causes
pub mod FrameView
pub mod Frames
pub mod JournalCalls
pub mod Opening
pub mod Place
pub mod Stands

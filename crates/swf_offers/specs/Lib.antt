pub mod Offers
pub mod EventTypes
pub mod Answers

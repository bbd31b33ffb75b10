pub mod Console
pub mod Taken
pub mod Script
pub mod Hosted
pub mod HostedLaws
pub mod HostedView

pub mod Generated
pub mod Totals

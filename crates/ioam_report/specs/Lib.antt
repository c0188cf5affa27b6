pub mod Flows
pub mod RunText
pub mod Sums
pub mod SumsText

pub mod Flows
pub mod Kept

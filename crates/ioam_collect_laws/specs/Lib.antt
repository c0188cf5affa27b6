pub mod Exported
pub mod Flows
pub mod Paths

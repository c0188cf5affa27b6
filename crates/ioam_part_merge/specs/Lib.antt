pub mod Keeping
pub mod Walk

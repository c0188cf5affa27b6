pub mod Capture
pub mod Merge
pub mod Merging

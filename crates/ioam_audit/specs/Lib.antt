pub mod Becomes
pub mod Decided
pub mod Free
pub mod Header
pub mod Lawful
pub mod Parts
pub mod Sent

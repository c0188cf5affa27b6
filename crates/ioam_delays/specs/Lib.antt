pub mod Buckets
pub mod Counters
pub mod Sights
pub mod Times

pub mod Format
pub mod Observation
pub mod DelaysText
pub mod Gathering
pub mod Promise

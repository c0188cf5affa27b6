pub mod Observation
pub mod Counting
pub mod LeaksText
pub mod Gathering
pub mod Promise

pub mod Tally
pub mod Ranking
pub mod Lines

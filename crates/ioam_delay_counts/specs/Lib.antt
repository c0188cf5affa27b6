pub mod Tables
pub mod Keys
pub mod Orders
pub mod Onward
pub mod Tallies
pub mod Courses
pub mod Counted

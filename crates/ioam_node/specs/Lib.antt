pub mod Order
pub mod Outward
pub mod Choice
pub mod Admission

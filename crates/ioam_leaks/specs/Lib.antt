pub mod Spots
pub mod Shows
pub mod Finding

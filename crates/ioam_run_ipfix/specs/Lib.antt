pub mod Exports
pub mod Messages
pub mod Packer
pub mod Packing
pub mod Promise
pub mod Taker
pub mod Texts

pub mod Faults
pub mod Goods
pub mod Keys
pub mod Rows

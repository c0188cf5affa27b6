pub mod Parted
pub mod Measured

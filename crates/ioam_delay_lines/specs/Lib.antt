pub mod Words
pub mod Shares
pub mod Rows
pub mod Units
pub mod Picture
pub mod Hops
pub mod Closing
pub mod Spaces

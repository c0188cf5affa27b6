pub mod Names
pub mod Held
pub mod Told
pub mod Flush
pub mod Open

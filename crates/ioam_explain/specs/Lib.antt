pub mod Fields
pub mod Headers
pub mod Options
pub mod Rows
pub mod Trace
pub mod Why

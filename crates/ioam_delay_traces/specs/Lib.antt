pub mod Traces
pub mod Totals
pub mod Shown
pub mod Listed

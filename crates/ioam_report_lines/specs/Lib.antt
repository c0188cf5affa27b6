pub mod Early
pub mod FieldsText
pub mod HopText
pub mod Spaced
pub mod TraceText
pub mod TracesText

pub mod StreamsLaws
pub mod RunLaws
pub mod FrameLaws
pub mod ConversionLaws

pub mod Stage
pub mod Streams
pub mod Frame
pub mod Conversion
pub mod ConversionLaws

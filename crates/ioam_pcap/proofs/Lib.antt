pub mod BehindLaws
pub mod DropLaws
mod LinkLaws
pub mod ReadsLaws
pub mod ShortLaws
pub mod StandsLaws
pub mod FaultLaws
pub mod OrderLaws
pub mod TextLaws

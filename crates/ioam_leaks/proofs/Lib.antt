pub mod FindingLaws
pub mod OptionLaws
pub mod ShowsLaws

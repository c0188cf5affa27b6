pub mod MeasuredLaws
mod PartedLaws

pub mod AreaLaws
mod EqualLaws
pub mod FilledLaws
pub mod ReadLaws
pub mod RecordedLaws
pub mod HeadLaws
pub mod DataLaws
pub mod ConcatLaws

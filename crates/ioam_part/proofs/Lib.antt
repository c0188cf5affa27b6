mod HeadLaws
pub mod PartLaws
mod PutLaws
mod ReaderLaws
pub mod RecordLaws
mod TakingLaws

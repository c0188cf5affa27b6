pub mod FilesLaws
pub mod ListLaws
pub mod MergeLaws

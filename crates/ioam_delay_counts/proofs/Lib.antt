pub mod CountLaws
pub mod CourseLaws
pub mod SumLaws
pub mod TableLaws

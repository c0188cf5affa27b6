pub mod NameLaws
pub mod ApartLaws

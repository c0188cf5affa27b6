pub mod ToldLaws
pub mod HeldLaws
pub mod NamesLaws
mod FlushLaws
mod OpenLaws

pub mod ElementLaws
pub mod NextLaws
pub mod TraceLaws

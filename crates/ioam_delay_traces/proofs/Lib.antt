pub mod TraceLaws
pub mod TotalLaws
pub mod ShownLaws
pub mod LightLaws
pub mod ListedLaws

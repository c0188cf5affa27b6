pub mod EncloseLaws
pub mod InnerLaws
pub mod LayLaws
pub mod OuterLaws
pub mod SizeLaws
pub mod WireLaws

pub mod PictureLaws
pub mod SpacesLaws

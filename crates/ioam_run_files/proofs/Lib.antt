pub mod NamesLaws
pub mod SettingLaws
pub mod OnlyLaws

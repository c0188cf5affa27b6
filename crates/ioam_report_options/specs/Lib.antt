pub mod Appends
pub mod OptionText
pub mod OptionsText

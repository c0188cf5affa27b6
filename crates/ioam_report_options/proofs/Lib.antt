pub mod AppendsLaws
pub mod LinesLaws
pub mod OptionsLaws
pub mod SaysLaws
pub mod TextLaws
pub mod UniqueLaws
mod TypedLaws

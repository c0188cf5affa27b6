mod CountLaws
mod EarlyLaws
pub mod ElementsLaws
pub mod HopTracesLaws
pub mod FilledLaws
pub mod FittingLaws
mod LeadLaws
pub mod LinesLaws
pub mod ListedLaws
mod SpacedLaws
pub mod TextLaws
pub mod TracesLaws
pub mod WordsLaws

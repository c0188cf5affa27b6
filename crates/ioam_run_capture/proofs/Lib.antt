pub mod VerdictLaws
pub mod FilteringLaws
pub mod OneTextLaws
pub mod ListingLaws
pub mod LeavingLaws
mod SavingLaws

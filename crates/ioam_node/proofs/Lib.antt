pub mod OrderLaws
pub mod ChoiceLaws
mod AdmissionLaws
pub mod OneAnswerLaws

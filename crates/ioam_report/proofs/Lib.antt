pub mod FlowsLaws
pub mod SumsLaws
mod TallyLaws

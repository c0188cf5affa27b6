pub mod CleanLaws
pub mod ForwardsLaws
pub mod FrontsLaws
pub mod OneFateLaws
pub mod TextsLaws
mod AddingLaws
mod AnswerLaws
mod TellsLaws
-- of the crates below, for the crates above
pub use Rattle.ioam_run_outputs.proofs.OutletsLaws
pub use Rattle.ioam_run_texts.proofs.OutLaws

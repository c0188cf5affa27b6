pub mod AddsLaws
pub mod StepLaws
pub mod HaltsLaws
pub mod StopsLaws
pub mod WordsLaws
pub mod AskedLaws
mod TakingLaws
mod AnswersLaws
-- of the crates below, for the crates above
pub use Rattle.ioam_capture.proofs.ReadsLaws
pub use Rattle.ioam_capture.proofs.ShortLaws
pub use Rattle.ioam_run_answer.proofs.FailuresLaws

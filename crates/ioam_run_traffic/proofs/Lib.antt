pub mod RunsLaws
mod ProgressLaws
mod StepsLaws
mod RanLaws
-- of the crates below, for the crates above
pub use Rattle.ioam_capture.proofs.ArrivesLaws
pub use Rattle.ioam_capture.proofs.MergeLaws
pub use Rattle.ioam_run_arrivals.proofs.CleanLaws
pub use Rattle.ioam_run_arrivals.proofs.OutLaws

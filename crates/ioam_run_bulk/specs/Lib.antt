pub mod Generated
pub mod Promise
pub mod Load
pub mod Stage
pub mod StageLaws
-- of the crates below, for the crates above
pub use Rattle.ioam_run_arrivals.specs.Fate
pub use Rattle.ioam_run_arrivals.specs.Texts

pub mod Answer
pub mod Names
pub mod Reads
pub mod Setting
-- of the crates below, for the crates above
pub use Rattle.ioam_run_answer.specs.Desks
pub use Rattle.ioam_run_answer.specs.DomainFault
pub use Rattle.ioam_run_answer.specs.Failures
pub use Rattle.ioam_run_answer.specs.Outcomes
pub use Rattle.ioam_run_answer.specs.declared.outcome.Outcome
pub use Rattle.ioam_run_outputs.specs.Outlets
pub use Rattle.ioam_topo_file.specs.File

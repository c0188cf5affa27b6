pub mod Fit
pub mod Fates
pub mod Lines
pub mod Verdicts
pub mod Cursors
pub mod Comparing
pub mod Promise
pub mod Ends
-- of the crates below, for the crates above
pub use Rattle.ioam_desk_outputs.specs.Held
pub use Rattle.ioam_desk_outputs.specs.Names
pub use Rattle.ioam_run_files.specs.File
pub use Rattle.ioam_run_stream.specs.Promise as RunStreamPromise
pub use Rattle.ioam_topo.specs.declared.domain.Domain

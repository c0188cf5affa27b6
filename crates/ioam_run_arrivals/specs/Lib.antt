pub mod Adding
pub mod Forwarding
-- of the crates below, for the crates above
pub use Rattle.ioam_plan.specs.declared.itinerary.End
pub use Rattle.ioam_plan.specs.declared.itinerary.Itinerary
pub use Rattle.ioam_run_outputs.specs.Outlets
pub use Rattle.ioam_run_texts.specs.Clean
pub use Rattle.ioam_run_texts.specs.Fate
pub use Rattle.ioam_run_texts.specs.Lowered
pub use Rattle.ioam_run_texts.specs.Texts

pub mod Traffic
pub mod Progress
pub mod Stage
pub mod StageLaws
-- of the crates below, for the crates above
pub use Rattle.ioam_capture.specs.Arrives
pub use Rattle.ioam_capture.specs.Merge
pub use Rattle.ioam_capture.specs.declared.turns.Turn
pub use Rattle.ioam_capture_merge.specs.Merging
pub use Rattle.ioam_pcap.specs.Text
pub use Rattle.ioam_pcap.specs.declared.capture.CapFault
pub use Rattle.ioam_run_arrivals.specs.Clean
pub use Rattle.ioam_run_arrivals.specs.End
pub use Rattle.ioam_run_arrivals.specs.Fate
pub use Rattle.ioam_run_arrivals.specs.Itinerary
pub use Rattle.ioam_run_arrivals.specs.Lowered
pub use Rattle.ioam_run_arrivals.specs.Texts

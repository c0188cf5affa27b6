pub mod AddsLaws
mod AfterLaws
mod CrossedLaws
pub mod FateLaws
mod LeavingLaws
pub mod OutLaws
mod PathsLaws
mod TellingLaws
-- of the crates below, for the crates above
pub use Rattle.ioam_ip.proofs.CleanLaws
pub use Rattle.ioam_ip.proofs.FramingLaws
pub use Rattle.ioam_ip.proofs.WithinLaws
pub use Rattle.ioam_node_visit.proofs.RecordsLaws
pub use Rattle.ioam_node_visit.proofs.SeeingLaws

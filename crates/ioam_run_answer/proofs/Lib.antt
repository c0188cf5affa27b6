pub mod AskedLaws
pub mod CallLaws
pub mod ExportsLaws
pub mod FailuresLaws
pub mod RanLaws
-- of the crates below, for the crates above
pub use Rattle.ioam_dex.proofs.FaultLaws
pub use Rattle.ioam_dex.proofs.ReadsLaws
pub use Rattle.ioam_dex.proofs.RecordLaws
pub use Rattle.ioam_part.proofs.PartLaws

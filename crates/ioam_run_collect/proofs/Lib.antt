mod AskedLaws
mod CollectLaws
-- of the crates below, for the crates above
pub use Rattle.ioam_collect.proofs.CountLaws
pub use Rattle.ioam_collect.proofs.JoinLaws
pub use Rattle.ioam_collect_laws.proofs.ExportLaws
pub use Rattle.ioam_collect_laws.proofs.FrontLaws
pub use Rattle.ioam_collect_laws.proofs.ReadLaws
pub use Rattle.ioam_collect_laws.proofs.WholeLaws

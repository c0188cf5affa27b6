pub mod TopLaws
pub mod TelemetryLaws
pub mod FileLaws
-- of the crates below, for the crates above
pub use Rattle.ioam_topo_entries.proofs.GoodsLaws
pub use Rattle.ioam_topo_entries.proofs.NumberLaws
pub use Rattle.ioam_topo_entries.proofs.ReadLaws
pub use Rattle.ioam_topo_network.proofs.KeptLaws
pub use Rattle.ioam_topo_network.proofs.LinkLaws

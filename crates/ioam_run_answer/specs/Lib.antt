pub mod Outcomes
pub mod Answers
pub mod Bounds
pub mod Desks
pub mod Failures
-- of the crates below, for the crates above
pub use Rattle.ioam_clock.specs.declared.sample.Sample
pub use Rattle.ioam_dex.specs.Faults
pub use Rattle.ioam_dex.specs.Reader
pub use Rattle.ioam_dex.specs.Reading
pub use Rattle.ioam_dex.specs.Reads
pub use Rattle.ioam_dex.specs.Record
pub use Rattle.ioam_dex.specs.Visit
pub use Rattle.ioam_dex.specs.declared.export.ExportFault
pub use Rattle.ioam_part.specs.Entry
pub use Rattle.ioam_part.specs.Part
pub use Rattle.ioam_pcap.specs.Entries
pub use Rattle.ioam_topo_entries.specs.declared.fault.DomainFault

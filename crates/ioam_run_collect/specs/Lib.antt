pub mod Promise
-- of the crates below, for the crates above
pub use Rattle.ioam_collect.specs.Best
pub use Rattle.ioam_collect.specs.Collected
pub use Rattle.ioam_collect.specs.Join
pub use Rattle.ioam_collect.specs.Keyed
pub use Rattle.ioam_collect.specs.declared.key.Key
pub use Rattle.ioam_collect_laws.specs.Exported
pub use Rattle.ioam_collect_laws.specs.Paths
pub use Rattle.ioam_collect_stream.specs.Gathering

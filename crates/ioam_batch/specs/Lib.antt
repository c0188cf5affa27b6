pub mod Along
pub mod Batches
pub mod Crossings
pub mod Jobs
pub mod Made
pub mod Ran
pub mod Sends
pub mod Taps
-- of the crates below, for the crates above
pub use Rattle.ioam_clock.specs.declared.sample.Sample
pub use Rattle.ioam_tunnel.specs.Enclosed
pub use Rattle.ioam_tunnel.specs.Inner
pub use Rattle.ioam_tunnel.specs.Wire
pub use Rattle.ioam_tunnel.specs.declared.numbers.Numbers

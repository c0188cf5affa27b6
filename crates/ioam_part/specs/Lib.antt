pub mod Faults
pub mod Part
pub mod Reading
pub mod Rest
-- of the crates below, for the crates above
pub use Rattle.ioam_pool.specs.Entry

pub mod Promise
pub mod Ends
pub mod Left
-- of the crates below, for the crates above
pub use Rattle.ioam_run_traffic.specs.Traffic

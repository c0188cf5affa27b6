pub mod Adds
pub mod Best
pub mod Collected
pub mod Gathered
pub mod Inside
pub mod Join
pub mod Joining
pub mod Keyed
pub mod Pairs
pub mod Puts
pub mod Ranked
pub mod Slots
pub mod Unite
-- of the crates below, for the crates above
pub use Rattle.ioam_pool.specs.Entry
pub use Rattle.ioam_pool.specs.Order

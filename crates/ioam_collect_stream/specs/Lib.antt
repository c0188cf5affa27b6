pub mod Gathering
pub mod Regrouping
pub mod Report
-- of the crates below, for the crates above
pub use Rattle.ioam_desk_outputs.specs.Names

pub mod CauseLaws
mod GatheringLaws
pub mod RecordsLaws
mod RegroupingLaws
-- of the crates below, for the crates above
pub use Rattle.ioam_desk_outputs.proofs.HeldLaws

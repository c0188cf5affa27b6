pub mod Files
pub mod Intakes
pub mod Joined
pub mod KeptText
pub mod MergePromise
pub mod PartPromise
pub mod PartReport
pub mod PartsPromise
pub mod Records
pub mod Stored
pub mod Telling
pub mod Two
pub mod Unread
-- of the crates below, for the crates above
pub use Rattle.ioam_report_groups.specs.GroupsText

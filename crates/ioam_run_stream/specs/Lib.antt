pub mod Frame
pub mod Promise
pub mod Answers
pub mod Captured
pub mod FirstLaws
pub mod CapturedLaws
-- of the crates below, for the crates above
pub use Rattle.ioam_capture.specs.Reader
pub use Rattle.ioam_capture.specs.Reads

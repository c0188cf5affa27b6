pub mod Seat
pub mod Passage
pub mod Judged
pub mod NotesText
pub mod NodeText
pub mod Passing
pub mod Promise
pub mod Ends

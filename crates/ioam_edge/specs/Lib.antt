pub mod Edge
pub mod Noted
pub mod Receiver
pub mod Window

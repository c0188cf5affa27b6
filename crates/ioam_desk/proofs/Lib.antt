pub mod AskedLaws
pub mod DeskLaws
mod HostLaws
mod IntakeLaws
pub mod KeptLaws
mod MovesLaws
pub mod TouchesLaws

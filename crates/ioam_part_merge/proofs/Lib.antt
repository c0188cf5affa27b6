mod SideLaws
mod TurnLaws
pub mod WalkLaws

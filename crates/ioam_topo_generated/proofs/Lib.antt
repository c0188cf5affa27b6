pub mod EqualLaws
pub mod SoundLaws

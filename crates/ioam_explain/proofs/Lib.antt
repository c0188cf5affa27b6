pub mod BodyLaws
pub mod CommonLaws
pub mod ElementLaws
pub mod FirstLaws
pub mod HoldLaws
pub mod OptionsLaws
pub mod PresenceLaws
pub mod RoomLaws

pub mod NodeLaws
pub mod LinkLaws
pub mod PortLaws
pub mod RouteLaws
pub mod PartsLaws
pub mod KeptLaws
pub mod PartFacts
pub mod SoundLaws

pub mod GatheringLaws
pub mod ObservationLaws

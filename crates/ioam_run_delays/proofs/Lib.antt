pub mod ObservationLaws
pub mod GatheringLaws

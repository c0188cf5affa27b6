pub mod EdgeLaws
pub mod NotedLaws
pub mod ReceiverLaws
pub mod TallyLaws
pub mod WindowLaws

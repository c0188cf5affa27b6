mod AheadLaws
pub mod BestLaws
pub mod CollectedLaws
pub mod CountLaws
pub mod FiledLaws
pub mod FollowLaws
pub mod JoinLaws
mod JoinedStores
pub mod JoiningLaws
pub mod KeyLaws
pub mod Members
pub mod RankedLaws
mod SlotLaws
pub mod Sorting
mod StoreLaws
pub mod UniteLaws

pub mod PassageLaws
pub mod PassingLaws
pub mod RefusedLaws
pub mod RanLaws
pub mod AskedLaws
pub mod BoundLaws
pub mod EndsLaws
pub mod SendingLaws

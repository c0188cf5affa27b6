pub mod BucketLaws
pub mod CounterLaws
pub mod SignedLaws
pub mod TimeLaws

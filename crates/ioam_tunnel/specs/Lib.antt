pub mod Enclosed
pub mod Inner
pub mod Limits
pub mod Outer
pub mod Size
pub mod Wire

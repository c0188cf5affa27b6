mod ChainLaws
mod FreeLaws
mod GuideLaws
pub mod OrderLaws
mod PartLaws
mod PoolLaws
mod SeatLaws
mod SwapLaws

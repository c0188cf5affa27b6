pub mod KeyLaws
pub mod FaultLaws
pub mod GoodsLaws
pub mod ReadLaws
pub mod RowLaws
pub mod TableLaws
pub mod NumberLaws

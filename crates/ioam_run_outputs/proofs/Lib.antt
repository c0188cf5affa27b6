pub mod OutletsLaws

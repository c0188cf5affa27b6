pub mod LineLaws
pub mod RankingLaws
pub mod TallyLaws

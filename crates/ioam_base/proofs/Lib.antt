pub mod LeadsLaws
pub mod ChainLaws
pub mod OctetsLaws
pub mod ResultLaws
pub mod WordsLaws
pub mod DecimalLaws
pub mod WrittenLaws
pub mod FedLaws

pub mod AddressLaws
pub mod EntryLaws
pub mod OctetLaws
pub mod PrefixSpelledLaws

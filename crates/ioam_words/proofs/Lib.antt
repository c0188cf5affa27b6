pub mod WordsLaws

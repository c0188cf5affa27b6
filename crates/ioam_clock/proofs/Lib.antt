mod NumberLaws
mod TrackLaws
mod LineLaws
mod ReadingLaws
mod FileLaws
mod SpelledLaws
mod GuessLaws

mod ApartLaws
mod EndsLaws
mod SameLaws
mod AskedLaws
mod BoundLaws
mod FilesLaws
mod WordsLaws
mod AnswerLaws

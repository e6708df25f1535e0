mod PartLemmas
mod ReadingLemmas
mod AnswerLemmas
mod CountLemmas

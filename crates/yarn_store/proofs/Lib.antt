pub mod PairLemmas
pub mod LineLemmas
pub mod NumberLemmas
pub mod NameLemmas
pub mod SpellingLemmas
pub mod LineReadingLemmas
pub mod ReadingLemmas
pub mod WritingLemmas

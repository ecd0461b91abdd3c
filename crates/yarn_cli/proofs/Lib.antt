pub mod CommandLemmas
pub mod CommandLineLemmas
pub mod CutLemmas
pub mod ListLemmas
pub mod PairsLemmas
pub mod PlayLemmas
pub mod ReadLemmas
pub mod RunLemmas
pub mod WordsLemmas
mod TreeLemmas
pub mod StringsLemmas
pub mod TableLemmas

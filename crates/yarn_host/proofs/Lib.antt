pub mod CallLemmas
pub mod NameLemmas
pub mod AskLemmas
pub mod ScriptLemmas
pub mod TapeLemmas

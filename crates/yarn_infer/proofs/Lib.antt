pub mod CountLemmas
pub mod BareLemmas

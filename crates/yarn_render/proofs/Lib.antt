pub mod RenderLemmas
pub mod LawLemmas

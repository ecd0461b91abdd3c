use Rattle.yarn_render.proofs.LawLemmas.{one_rendering, one_transcript}
use Rattle.yarn_render.proofs.laws.one_rendering.Goals as goal

pub returns : goal.returns
returns c = record { event = one_rendering; transcript = one_transcript }

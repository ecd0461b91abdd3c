use Rattle.yarn_render.proofs.LawLemmas.{each_rendered, each_transcript}
use Rattle.yarn_render.proofs.laws.each_rendered.Goals as goal

pub returns : goal.returns
returns c = record { event = each_rendered; transcript = each_transcript }

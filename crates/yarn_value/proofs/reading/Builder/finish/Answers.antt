use Rattle.yarn_value.proofs.ReadingLemmas.{built-run}
use Rattle.yarn_value.proofs.reading.Builder.finish.Goals as goal

pub returns : goal.returns
returns c = built-run _ _ _ c.in_ok-keep.ensures

use Rattle.yarn_value.proofs.SpellingLemmas.{marks_are_spelled}
use Rattle.yarn_value.proofs.reading.marks_are_spelled.Goals as goal

pub returns : goal.returns
returns c = marks_are_spelled

use Rattle.yarn_store.proofs.LineReadingLemmas.{lines_are_read}
use Rattle.yarn_store.proofs.laws.lines_are_read.Goals as goal

pub returns : goal.returns
returns c = lines_are_read

use Rattle.yarn_blocks.proofs.MarkLemmas.{with_marks}
use Rattle.yarn_blocks.proofs.laws.marks_have_entries.Goals as goal

pub returns : goal.returns
returns c = with_marks

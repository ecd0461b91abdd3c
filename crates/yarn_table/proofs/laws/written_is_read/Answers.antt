use Rattle.yarn_table.proofs.WrittenLemmas.{written_is_read}
use Rattle.yarn_table.proofs.laws.written_is_read.Goals as goal

pub returns : goal.returns
returns c = written_is_read

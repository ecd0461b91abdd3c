use Rattle.yarn_items.proofs.SimpleLemmas.{found_of-simple}
use Rattle.yarn_items.proofs.laws.plain_lines_are_said.Goals as goal

pub returns : goal.returns
returns c = found_of-simple

use Rattle.yarn_markup.proofs.MarkupLemmas.{one_fault}
use Rattle.yarn_markup.proofs.laws.one_fault.Goals as goal

pub returns : goal.returns
returns c = one_fault

use Rattle.yarn_compile.proofs.Rows.{counts_rise}
use Rattle.yarn_compile.proofs.laws.counts_rise.Goals as goal

pub returns : goal.returns
returns c = counts_rise

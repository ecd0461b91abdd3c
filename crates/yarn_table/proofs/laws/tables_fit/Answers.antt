use Rattle.std.proofs.Common.{refl}
use Rattle.yarn_table.proofs.RowLemmas.{tables_fit}
use Rattle.yarn_table.proofs.laws.tables_fit.Goals as goal

pub returns : goal.returns
returns c = tables_fit

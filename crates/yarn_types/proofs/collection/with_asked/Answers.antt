use Rattle.yarn_types.specs.Fits.{names_in}
use Rattle.yarn_types.specs.Units.{names_in_all}
use Rattle.yarn_types.proofs.NameLemmas.{with_rest}
use Rattle.yarn_types.proofs.collection.with_asked.Goals as goal

pub returns-in_ok-names-in-ValuesIf : goal.returns-in_ok-names-in-ValuesIf
returns-in_ok-names-in-ValuesIf c =
    rw (c.in-ValuesIf.is) (with_rest c.with_expr.result c.args.names c.in_ok-names-in-ValuesIf.names c.args.place (names_in_all c.in-ValuesIf.exprs.now) (names_in c.in-ValuesIf.condition.now)
    (rw c.as_slice-in-ValuesIf.ensures at c.in_ok-names-in-ValuesIf.ensures) c.with_expr.ensures)

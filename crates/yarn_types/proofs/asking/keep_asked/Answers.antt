use Rattle.yarn_value.specs.declared.value.Kind.TheVariants.{Truth}
use Rattle.yarn_types.specs.KindSets.{only}
use Rattle.yarn_types.specs.Fits.{is_in}
use Rattle.yarn_types.specs.Founds.{kind_under}
use Rattle.yarn_types.specs.Stops.{has_kinds}
use Rattle.yarn_types.proofs.Narrowing.{and_ok, and_err}
use Rattle.yarn_types.proofs.asking.keep_asked.Goals as goal

pub returns-in-Values-clause-ok : goal.returns-in-Values-clause-ok
returns-in-Values-clause-ok g c = rw c.in-Values.is (rw c.as_slice.ensures at c.keep_values.ensures.ok)

pub returns-in_ok-keep_values-in-ValuesIf-clause-ok : goal.returns-in_ok-keep_values-in-ValuesIf-clause-ok
returns-in_ok-keep_values-in-ValuesIf-clause-ok g c =
    rw c.in-ValuesIf.is (and_ok c.args.classes.now c.keep_values-in-ValuesIf.new.classes (has_kinds c.args.scope.now c.in-ValuesIf.exprs.now) (λ t. is_in (only Truth) (kind_under c.args.scope.now c.in-ValuesIf.condition.now t)) c.find_in.new.classes c.find_in.result
    (rw c.as_slice-in-ValuesIf.ensures at c.in_ok-keep_values-in-ValuesIf.ensures.ok) (rw c.only.ensures at c.find_in.ensures.ok))

pub returns-in_ok-keep_values-in-ValuesIf-clause-err : goal.returns-in_ok-keep_values-in-ValuesIf-clause-err
returns-in_ok-keep_values-in-ValuesIf-clause-err g c =
    rw c.in-ValuesIf.is (and_err c.args.classes.now c.keep_values-in-ValuesIf.new.classes (has_kinds c.args.scope.now c.in-ValuesIf.exprs.now) (λ t. is_in (only Truth) (kind_under c.args.scope.now c.in-ValuesIf.condition.now t)) c.find_in.result
    (rw c.as_slice-in-ValuesIf.ensures at c.in_ok-keep_values-in-ValuesIf.ensures.ok) (rw c.only.ensures at c.find_in.ensures.err))

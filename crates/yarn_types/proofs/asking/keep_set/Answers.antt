use Rattle.yarn_expr.specs.declared.tree.BinaryOp.TheVariants.{Eq}
use Rattle.yarn_types.specs.Founds.{variable_under, set_under}
use Rattle.yarn_types.proofs.FindLemmas.{finds_joined, finds_none_joined}
use Rattle.yarn_types.proofs.asking.keep_set.Goals as goal

pub returns-in-Ok-clause-ok : goal.returns-in-Ok-clause-ok
returns-in-Ok-clause-ok g c =
    (finds_joined c.args.classes.now c.find_variable.new.classes c.find_set.new.classes c.join_operands.new.classes Eq (variable_under c.args.scope.now c.args.name.now) (set_under c.args.scope.now c.args.name.now c.args.op c.args.expr.now) c.in_ok-one.one c.in_ok-other.other c.in-Ok.field-0 c.in_ok-one.ensures.ok c.in_ok-other.ensures.ok c.in-Ok.ensures.ok).narrows

pub returns-in-Err-clause-err : goal.returns-in-Err-clause-err
returns-in-Err-clause-err g c =
    finds_none_joined c.args.classes.now c.find_variable.new.classes c.find_set.new.classes Eq (variable_under c.args.scope.now c.args.name.now) (set_under c.args.scope.now c.args.name.now c.args.op c.args.expr.now) c.in_ok-one.one c.in_ok-other.other c.in_ok-one.ensures.ok c.in_ok-other.ensures.ok c.in-Err.ensures.err

use Rattle.yarn_types.specs.Founds.{kind_under, variable_under}
use Rattle.yarn_types.proofs.AskingLemmas.{joined_ok, joined_err}
use Rattle.yarn_types.proofs.asking.find_with.Goals as goal

pub returns-clause-ok : goal.returns-clause-ok
returns-clause-ok g c =
    joined_ok c.args.classes.now c.find_variable.new.classes c.find.new.classes c.join_operands.new.classes c.args.op (variable_under c.args.scope.now c.args.name.now) (kind_under c.args.scope.now c.args.expr.now) c.in_ok-one.one c.in_ok-other.other c.join_operands.result c.in_ok-one.ensures.ok c.in_ok-other.ensures.ok c.join_operands.ensures.ok

pub returns-clause-err : goal.returns-clause-err
returns-clause-err g c =
    joined_err c.args.classes.now c.find_variable.new.classes c.find.new.classes c.args.op (variable_under c.args.scope.now c.args.name.now) (kind_under c.args.scope.now c.args.expr.now) c.in_ok-one.one c.in_ok-other.other c.join_operands.result c.in_ok-one.ensures.ok c.in_ok-other.ensures.ok c.join_operands.ensures.err

use Rattle.yarn_types.proofs.expression.join_operands.Goals as goal
use Rattle.yarn_types.proofs.Narrowing.{at_error}
use Rattle.yarn_types.proofs.FindLemmas.{finds_operands, operands_refused}

pub returns-in_err-keep-clause-err : goal.returns-in_err-keep-clause-err
returns-in_err-keep-clause-err g c =
    at_error c.from_residual-in_err-keep.result (operands_refused c.args.classes.now c.alike.new.self c.args.op c.args.one c.args.other c.in_ok-alike.ensures.ok (rw c.taken_by.ensures at c.in_err-keep.ensures.err))

pub returns-clause-ok : goal.returns-clause-ok
returns-clause-ok g c =
    rw c.given_by.ensures (finds_operands c.args.classes.now c.alike.new.self c.keep.new.self c.args.op c.args.one c.args.other c.requires.one c.in_ok-alike.ensures.ok (rw c.taken_by.ensures at c.in_ok-keep.ensures.ok))

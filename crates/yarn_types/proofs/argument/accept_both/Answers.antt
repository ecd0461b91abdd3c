use Rattle.yarn_value.specs.Rows.{accepts}
use Rattle.yarn_types.specs.Founds.{kind_in}
use Rattle.yarn_types.proofs.Narrowing.{and_ok, and_err}
use Rattle.yarn_types.proofs.argument.accept_both.Goals as goal

pub returns-clause-ok : goal.returns-clause-ok
returns-clause-ok g c =
    and_ok c.args.classes.now c.accept_first.new.classes (λ t. accepts c.args.param (kind_in c.args.one t) (kind_in c.args.one t)) (λ t. accepts c.args.next (kind_in c.args.one t) (kind_in c.args.other t)) c.accept.new.classes c.accept.result c.in_ok-accept_first.ensures.ok c.accept.ensures.ok

pub returns-clause-err : goal.returns-clause-err
returns-clause-err g c =
    and_err c.args.classes.now c.accept_first.new.classes (λ t. accepts c.args.param (kind_in c.args.one t) (kind_in c.args.one t)) (λ t. accepts c.args.next (kind_in c.args.one t) (kind_in c.args.other t)) c.accept.result c.in_ok-accept_first.ensures.ok c.accept.ensures.err

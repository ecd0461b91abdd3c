use Rattle.std.proofs.Common.{sym, ◌∙◌}
use Rattle.yarn_types.proofs.class.Classes.unite.Goals as goal
use Rattle.yarn_types.proofs.ClassesLemmas.{join_ok, join_err}

pub returns-then-leaves_some-clause-ok : goal.returns-then-leaves_some-clause-ok
returns-then-leaves_some-clause-ok g c =
    join_ok c.args.self.now (record { kinds = c.meet.new.self; labels = c.join.new.self }) c.args.label c.args.gone c.args.label c.args.gone c.meet.result c.requires.stands c.requires.label c.requires.gone (sym c.requires.label_settled) (sym c.requires.gone_settled) c.requires.apart c.meet.ensures.sets c.join.ensures c.meet.ensures.meet (sym c.leaves_some.ensures ∙ c.if-leaves_some.true)

pub returns-else-leaves_some-clause-err : goal.returns-else-leaves_some-clause-err
returns-else-leaves_some-clause-err g c =
    join_err c.args.self.now c.args.label c.args.gone c.args.label c.args.gone c.meet.result c.requires.stands c.requires.label c.requires.gone (sym c.requires.label_settled) (sym c.requires.gone_settled) c.meet.ensures.meet (sym c.leaves_some.ensures ∙ c.if-leaves_some.false)

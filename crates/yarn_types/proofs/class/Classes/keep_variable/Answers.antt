use Rattle.std.proofs.Common.{sym, ◌∙◌}
use Rattle.yarn_types.proofs.class.Classes.keep_variable.Goals as goal
use Rattle.yarn_types.proofs.ClassesLemmas.{keep_ok, keep_err}

pub returns-then-leaves_some : goal.returns-then-leaves_some
returns-then-leaves_some c = record { ok = keep_ok c.args.self.now c.keep.new.self c.args.variable c.label-label.result c.args.kinds c.keep.result c.requires.stands c.requires.placed c.label-label.ensures c.keep.ensures.set c.keep.ensures.meet (sym c.leaves_some.ensures ∙ c.if-leaves_some.true); err = tt }

pub returns-else-leaves_some : goal.returns-else-leaves_some
returns-else-leaves_some c = record { ok = tt; err = keep_err c.args.self.now c.keep.new.self c.args.variable c.label-label.result c.args.kinds c.keep.result c.requires.stands c.requires.placed c.label-label.ensures c.keep.ensures.set c.keep.ensures.meet (sym c.leaves_some.ensures ∙ c.if-leaves_some.false) }

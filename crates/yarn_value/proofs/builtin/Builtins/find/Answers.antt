use Rattle.std.proofs.Common.{sym, ◌∙◌}
use Rattle.yarn_value.proofs.TableLemmas.{IsLeft-found, IsLeft-later, IsLeft-earlier}
use Rattle.yarn_value.proofs.builtin.Builtins.find.Goals as goal

pub returns-in-Equal : goal.returns-in-Equal
returns-in-Equal g c = IsLeft-found _ _ _ _ c.in-Some.ensures.parts _ _ c.loop-front.invariant (sym c.cmp.ensures ∙ c.in-Equal.is)

pub loop-front-preserved-in-Less : goal.loop-front-preserved-in-Less
loop-front-preserved-in-Less g c = IsLeft-later _ _ _ _ c.in-Some.ensures.parts _ _ c.loop-front.invariant (sym c.cmp.ensures ∙ c.in-Less.is)

pub loop-front-preserved : goal.loop-front-preserved
loop-front-preserved g c = IsLeft-earlier _ _ _ _ c.in-Some.ensures.parts _ _ c.loop-front.invariant (sym c.cmp.ensures ∙ c.in-Greater.is)

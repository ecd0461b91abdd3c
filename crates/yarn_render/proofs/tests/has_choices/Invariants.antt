use Rattle.std.proofs.Common.{ℕ, ◌<◌, get_or}
use Rattle.yarn_code.specs.declared.event.Choice.{Choice}
use Rattle.yarn_render.specs.Renders.{HasText}
use Rattle.yarn_render.proofs.tests.has_choices.Given as goal

-- the table has the texts so far
abbrev pub invariant-loop-choice : goal.invariant-loop-choice
invariant-loop-choice l =
    (k : ℕ) (d : Choice) → k < l.choice-index → HasText l.table (get_or l.choices k d).id (get_or l.choices k d).values

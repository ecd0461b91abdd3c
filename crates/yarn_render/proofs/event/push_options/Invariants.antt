use Rattle.std.proofs.Common.{List, ℕ, ◌++◌, drop}
use Rattle.yarn_render.specs.Renders.{ShowsOptions}
use Rattle.yarn_render.specs.Steps.{Puts}
use Rattle.yarn_render.proofs.event.push_options.Given as goal

-- with whatever the options that are left are written as, all are written
abbrev pub invariant-loop-choice : goal.invariant-loop-choice
invariant-loop-choice l =
    (rest : List ℕ) → ShowsOptions l.table l.plural l.marks l.number (drop l.choice-index l.choices) rest →
    Puts (ShowsOptions l.table l.plural l.marks 1 l.choices) l.initial.out (l.out ++ rest)
